-- the rules, which a caller cites
pub mod Scanning
-- the steps of the code, which a caller does not need
pub mod Working
pub mod Promises
