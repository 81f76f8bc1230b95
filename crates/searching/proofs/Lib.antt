-- Why the steps come to the rule, as crate connected has it.
pub use Rattle.connected.proofs.Looking
pub use Rattle.connected.proofs.Parting
pub use Rattle.connected.proofs.Nearby
