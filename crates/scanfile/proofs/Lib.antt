pub mod Lengths
pub mod Finite
pub mod Answers
pub mod Reading
