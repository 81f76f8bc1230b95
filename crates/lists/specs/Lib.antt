pub mod Lists
pub mod Numbers
pub mod Same
pub mod FirstUses
pub mod Cutting
pub mod Putting
