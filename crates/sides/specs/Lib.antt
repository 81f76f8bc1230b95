-- the uses of edges as columns, and which use of an edge is the first
pub mod Sides
-- the steps of the code
pub mod Steps
