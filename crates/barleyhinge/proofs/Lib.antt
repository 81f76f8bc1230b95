pub mod Taken
pub mod Verdict
