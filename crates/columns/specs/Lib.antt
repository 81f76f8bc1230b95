-- what document 01 says of edge keys
pub mod Keys
-- the steps of the code
pub mod Columns
