-- the rules, which a caller cites
pub mod Taking
-- steps of the code, which only the reader needs
pub mod Working
