pub mod Growth
pub mod Putting
pub mod Bare
