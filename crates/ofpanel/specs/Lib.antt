-- what the call rests on
pub mod OfPanel
-- the steps of the code
pub mod Steps
