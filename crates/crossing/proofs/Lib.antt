-- the loops
pub mod After
pub mod Twin
pub mod Follow
-- what the rows come to
pub mod Ordered
pub mod Twinned
pub mod Rowed
pub mod Turned
