-- The rule of the search and the steps of the code, as crate connected has them.
pub use Rattle.connected.specs.Search
pub use Rattle.connected.specs.Joins
pub use Rattle.connected.specs.Walk
pub use Rattle.connected.specs.Rows
