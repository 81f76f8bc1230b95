-- the rules, which a caller cites, and what they promise
pub mod InPlace
pub mod Promises
-- steps of the code, which a caller does not need
pub mod Working
