-- the rules, as crate together has them
pub use Rattle.together.specs.Centre
pub use Rattle.together.specs.Merging
pub use Rattle.together.specs.Nearest
pub use Rattle.together.specs.Promises
