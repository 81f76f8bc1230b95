-- the rules of smoothing, and what they come to
pub mod Smoothed
pub mod Around
pub mod Positions
pub mod Promise
pub mod Refusals
-- small meshes, worked out
pub mod Examples
-- what the code hands from crate to crate
pub mod Columns
