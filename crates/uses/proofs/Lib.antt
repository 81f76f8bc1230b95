pub mod Sides
pub mod Filling
pub mod Facing
pub mod Reading
pub mod Gathering
