-- the rule, and the call
pub mod Ported
pub mod Answers
-- the steps of the code
pub mod Keeping
