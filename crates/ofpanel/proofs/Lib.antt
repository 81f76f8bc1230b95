pub mod Wires
pub mod Uses
pub mod Entries
pub mod Whole
