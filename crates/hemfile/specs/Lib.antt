-- the rules, which a caller cites
pub mod HemFile
-- what the functions hand to one another
pub mod Working
