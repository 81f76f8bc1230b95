pub mod Crossing
pub mod Rounds
pub mod Filling
pub mod Numbering
pub mod Settling
pub mod Answer
pub mod Laws
