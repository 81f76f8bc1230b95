-- the rows as the code writes them, and what its functions rest on
pub mod Crossing
-- what they come to
pub mod Turned
