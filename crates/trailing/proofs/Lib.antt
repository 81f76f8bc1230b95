pub mod Walks
pub mod Walking
pub mod Scanning
