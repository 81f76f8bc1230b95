pub mod Recorded
pub mod Fitting
pub mod Values
pub mod Ringing
pub mod Numbered
pub mod Kind6
