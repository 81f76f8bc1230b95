pub mod Same
pub mod Demand
pub mod Pairs
