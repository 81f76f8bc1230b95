-- keys numbered by first appearance
pub mod Appearing
-- the steps of the code
pub mod Steps
