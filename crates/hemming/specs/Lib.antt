-- the steps of the code, and what its functions rest on; the rule is crate turning's
pub mod Rows
