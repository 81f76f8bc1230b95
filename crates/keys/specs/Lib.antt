-- what document 01 says of edge keys, and the uses as columns, as crate columns has them
pub use Rattle.columns.specs.Keys
pub use Rattle.columns.specs.Columns
-- the steps of the code
pub mod Firsts
