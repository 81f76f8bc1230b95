pub mod Hold
pub mod Meaning
