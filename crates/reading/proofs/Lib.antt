pub mod Sane
pub mod Values
pub mod Ending
pub mod Calling
