-- steps of the code; the rules stand in unused's specs/
pub mod Working
