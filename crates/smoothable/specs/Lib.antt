-- the number that is earned before anything is counted
pub mod Early
-- what the functions hand to one another
pub mod Working
