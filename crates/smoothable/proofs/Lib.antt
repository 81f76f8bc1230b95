pub mod Marking
pub mod Tests
pub mod Rows
