pub mod Placing
pub mod Passing
pub mod Pushed
pub mod Accepting
pub mod Tags
pub mod Beside
pub mod Filling
