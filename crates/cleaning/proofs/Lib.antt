pub mod Cleaned
pub mod InARow
pub mod CanCome
