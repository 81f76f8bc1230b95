-- steps of the code
pub mod Reach
