pub mod Wiring
pub mod Fitting
