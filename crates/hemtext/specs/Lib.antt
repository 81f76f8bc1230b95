-- the rules, which a caller cites
pub mod HemText
-- what the code rests on
pub mod Working
