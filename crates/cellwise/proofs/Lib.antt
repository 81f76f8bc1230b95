pub mod Weights
pub mod Ordered
pub mod Passing
pub mod Ends
pub mod Starts
