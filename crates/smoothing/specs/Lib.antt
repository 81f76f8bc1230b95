-- the call, and what may be counted on
pub mod Smoothing
pub mod Promises
-- what the functions hand to one another, which a caller does not need
pub mod Working
