-- the rules, and what they promise
pub mod Centre
pub mod Merging
pub mod Nearest
pub mod Promises
-- steps of the code, which a caller does not need
pub mod Working
