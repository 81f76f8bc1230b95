pub mod Sorted
pub mod Marking
pub mod Valid
pub mod Rows
