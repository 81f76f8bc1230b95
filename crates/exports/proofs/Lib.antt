pub mod Rewritten
pub mod Covers
pub mod Used
pub mod Distinct
pub mod Compactions
pub mod Sheets
