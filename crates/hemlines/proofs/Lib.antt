pub mod Line
pub mod Listed
