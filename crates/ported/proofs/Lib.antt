pub mod Replacing
pub mod Lasts
pub mod Numbering
pub mod PortedTables
pub mod Given
pub mod Answering
