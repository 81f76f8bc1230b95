pub mod Looping
pub mod Fronts
pub mod Ending
pub mod Handing
pub mod Calling
