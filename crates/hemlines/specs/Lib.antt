-- the rules, which a caller cites
pub mod HemLines
pub mod Working
