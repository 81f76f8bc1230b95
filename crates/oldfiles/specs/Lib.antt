-- the reader as it was
pub mod Before
-- what stayed
pub mod Promises
