pub mod Points
pub mod Prefixes
pub mod Pieces
pub mod Lengths
pub mod Numbers
pub mod Meshes
pub mod Likewise
pub mod Formats
