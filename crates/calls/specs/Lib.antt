pub mod Calls
pub mod Order
pub mod Begun
-- the rule that was replaced, for one example
pub mod Former
pub mod Promises
