pub mod Looking
pub mod Parting
pub mod Walking
pub mod Nearby
pub mod Popping
pub mod Listed
pub mod Rows
