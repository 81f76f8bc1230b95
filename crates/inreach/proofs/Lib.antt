pub mod Skipping
pub mod Runs
pub mod Counting
