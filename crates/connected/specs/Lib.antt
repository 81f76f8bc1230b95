-- what document 01 says of the search
pub mod Search
-- the steps of the code
pub mod Joins
pub mod Walk
pub mod Rows
