pub mod Covers
pub mod Sheets
