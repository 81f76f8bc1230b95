pub mod Placing
pub mod Wiring
pub mod Answering
