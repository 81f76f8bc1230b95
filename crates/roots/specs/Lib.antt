pub mod Roots
pub mod Distances
