pub mod Nans
pub mod Finite
pub mod Halves
