-- what document 01 says of panels, what the call promises, and what that comes to
pub mod Panels
pub mod Contract
pub mod Promises
-- the steps of the code
pub mod Joins
pub mod Rows
