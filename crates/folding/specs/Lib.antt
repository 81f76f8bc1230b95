-- the rules, which a caller cites, and what they promise
pub mod Folding
pub mod Places
pub mod Promises
-- steps of the code, which a caller of the removal does not need
pub mod Working
