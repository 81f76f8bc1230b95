pub mod Fronts
pub mod Reading
pub mod Compacting
pub mod Unfolding
pub mod Kept
pub mod Marks
