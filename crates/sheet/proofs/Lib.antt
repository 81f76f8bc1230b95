pub mod Left
pub mod Printing
