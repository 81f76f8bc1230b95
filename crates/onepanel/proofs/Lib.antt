pub mod Owning
pub mod OnePanel
