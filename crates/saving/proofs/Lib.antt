pub mod Storing
pub mod Listing
pub mod Entries
pub mod Cornering
pub mod Faces
pub mod Saving
