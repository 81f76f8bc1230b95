pub mod Seeking
pub mod Parting
pub mod Taking
pub mod Cutting
pub mod Corners
pub mod Filling
pub mod Repeating
