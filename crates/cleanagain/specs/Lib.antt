pub mod Promises
pub mod Calls
pub mod Longer
