pub mod Renumbered
pub mod Points
pub mod Compacted
