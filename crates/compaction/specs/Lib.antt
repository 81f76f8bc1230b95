-- one column compacted; the rules stand in unused's specs/
pub mod Columns
