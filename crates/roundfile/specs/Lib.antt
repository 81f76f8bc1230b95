-- the rules, to hold beside the document
pub mod Rounding
pub mod Promises
-- what the steps hand to one another
pub mod Working
