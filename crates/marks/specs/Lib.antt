pub mod Marks
pub mod Promises
pub mod Calls
pub mod Order
pub mod Examples
