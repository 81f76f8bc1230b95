pub mod Gathering
pub mod Edges
pub mod Counted
pub mod Hemmed
pub mod Rules
