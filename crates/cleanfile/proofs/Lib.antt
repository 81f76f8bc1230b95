pub mod Answering
pub mod Promised
