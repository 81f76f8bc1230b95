pub mod Digits
pub mod Both
pub mod Filling
pub mod Rooms
