pub mod Pulled
pub mod Rules
