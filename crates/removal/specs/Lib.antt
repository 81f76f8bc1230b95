-- the rules, which a caller cites
pub mod Origins
pub mod Folded
pub mod Promises
pub mod Examples
-- steps of the code, which a caller does not need
pub mod Working
