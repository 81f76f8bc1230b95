pub mod Tallying
pub mod Hemming
