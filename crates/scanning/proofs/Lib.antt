pub mod Opened
pub mod Printing
pub mod Beginning
