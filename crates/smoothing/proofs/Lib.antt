pub mod Rooms
pub mod Rounded
pub mod Rows
pub mod Passing
pub mod Gathering
pub mod Writing
pub mod Finishing
pub mod Answer
