pub mod Stopping
pub mod Positions
pub mod Textures
pub mod Normals
pub mod Ends
pub mod Rings
pub mod Known
pub mod Cases
