-- what the call lends, answers and leaves
pub mod Opening
-- what its steps hand to one another
pub mod Working
