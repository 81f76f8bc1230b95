pub mod Search
pub mod Pieces
pub mod Placing
pub mod Places
pub mod Faces
pub mod Promises
