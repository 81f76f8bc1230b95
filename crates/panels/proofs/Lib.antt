pub mod Sharing
pub mod Panelled
pub mod Recording
pub mod Joinable
pub mod Refusing
pub mod Whole
pub mod Finer
pub mod Lowest
