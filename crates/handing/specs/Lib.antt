-- the rooms that are lent
pub mod Handing
-- the steps of the code
pub mod Steps
