-- the rules, which a caller cites, and what the call promises
pub mod HemList
pub mod Answer
-- what the code rests on
pub mod Working
