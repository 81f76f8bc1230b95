pub mod Both
pub mod Paired
