pub mod Passing
pub mod Scratch
pub mod Telling
pub mod Behind
