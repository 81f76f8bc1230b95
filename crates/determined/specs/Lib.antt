pub mod Determined
pub mod Tied
