-- the rules, which a caller cites
pub mod Little
pub mod Promises
