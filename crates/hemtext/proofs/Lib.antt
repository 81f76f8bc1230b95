pub mod Lengths
pub mod Fitting
pub mod Texts
