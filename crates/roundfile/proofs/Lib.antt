pub mod Smooth
pub mod Answering
pub mod Doubles
pub mod Marks
pub mod Promised
