pub mod Edges
pub mod Promises
