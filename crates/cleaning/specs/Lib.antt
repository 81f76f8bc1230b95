pub mod Cleaning
pub mod Promises
