-- what the rules come to, as crate verdicts has it
pub use Rattle.verdicts.proofs.SameEdge
pub use Rattle.verdicts.proofs.Ascending
pub use Rattle.verdicts.proofs.HemUses
pub use Rattle.verdicts.proofs.OnlyHems
pub use Rattle.verdicts.proofs.Reordered
pub use Rattle.verdicts.proofs.Rings
pub use Rattle.verdicts.proofs.OfHems
-- why the code meets them
pub mod Grouped
pub mod Scans
pub mod Judging
pub mod LastUses
pub mod Composed
pub mod Answering
