pub mod Flat
pub mod OneFace
