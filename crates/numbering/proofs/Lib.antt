pub mod OneUse
pub mod Laying
pub mod Whole
