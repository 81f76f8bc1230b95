-- the order of points by cell
pub mod Order
-- where those end that have cells in common, and where those begin that can be compared
pub mod Blocks
-- steps of the code
pub mod Digits
