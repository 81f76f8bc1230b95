-- the rules, which a caller cites
pub mod Limits
pub mod Points
pub mod Scaling
pub mod Cells
pub mod Near
pub mod Promises
