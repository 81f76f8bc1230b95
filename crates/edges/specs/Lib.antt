-- the rules, as crate verdicts has them
pub use Rattle.verdicts.specs.Edges
pub use Rattle.verdicts.specs.Promises
-- the answers, and the steps of the code
pub mod Answers
pub mod Runs
