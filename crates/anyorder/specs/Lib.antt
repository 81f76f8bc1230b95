pub mod Orders
pub mod Promises
pub mod Calls
pub mod Needed
