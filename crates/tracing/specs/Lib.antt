-- what is left of edges, and wires along it
pub mod Following
-- what a call on wires answers and leaves
pub mod Answers
-- the steps of the code: hem edges as two lists, the two tables, tracing
pub mod Hems
pub mod Tables
pub mod Tracing
