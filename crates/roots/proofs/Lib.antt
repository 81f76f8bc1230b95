pub mod Greatest
pub mod Halved
pub mod Signs
pub mod Distances
