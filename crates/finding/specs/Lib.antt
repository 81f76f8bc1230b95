-- the rules, which a caller cites
pub mod Found
-- the steps of the code, which a caller does not need
pub mod Working
