-- the rule, and what it comes to
pub mod Turning
pub mod Promise
-- the rule over rows, as code has the uses
pub mod Rows
