pub mod Written
pub mod Putting
