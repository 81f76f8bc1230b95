pub mod Marks
pub mod Unchanged
