-- the call; the rule is crate turning's
pub mod Answers
-- what the functions rest on
pub mod Rows
