pub mod Started
pub mod Kept
pub mod Steps
pub mod Trails
pub mod HemPlaces
pub mod Ascending
pub mod Given
