pub mod Promises
pub mod Order
pub mod Exports
pub mod Examples
pub mod Numbers
pub mod Unread
