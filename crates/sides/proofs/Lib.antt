pub mod Triangles
pub mod Columns
pub mod Marks
