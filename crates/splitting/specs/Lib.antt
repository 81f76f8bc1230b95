pub mod Splitting
pub mod Promises
pub mod Examples
