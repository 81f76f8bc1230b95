pub mod Examples
pub mod Search
pub mod Splitting
pub mod Pieces
pub mod Mapped
pub mod Promises
