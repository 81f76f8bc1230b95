-- the rules, which a caller cites
pub mod Pairs
pub mod Walk
pub mod Promises
-- steps of the code: what it works on, which only merging needs
pub mod Engine
pub mod Frames
