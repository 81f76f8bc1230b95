-- what stands around positions, by rows
pub mod Rows
-- the steps of the code
pub mod Steps
