-- edges whose ends are renumbered
pub mod Images
pub mod Counted
pub mod Moved
pub mod Hems
-- panels
pub mod Joining
pub mod Normals
pub mod Joined
-- house wires
pub mod Cuts
pub mod Followed
pub mod Filled
pub mod Wires
pub mod Points
pub mod ByComputation
-- together, and compaction
pub mod Compacting
pub mod Renumbered
pub mod Compacted
