-- the arithmetic of one axis, as smoothing has it
pub mod Axis
-- the same, position by position and edge by edge, as rows of numbers have them
pub mod Rows
