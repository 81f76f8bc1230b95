-- what numbering edges asks and what it gives
pub mod Numbering
-- the steps of the code: over some of the uses, and one use more
pub mod Steps
