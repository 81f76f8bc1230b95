-- which point is the first with the bits of another
pub mod Marks
-- the steps of the code
pub mod Steps
