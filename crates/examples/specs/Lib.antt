pub mod Twelve
pub mod Meaning
