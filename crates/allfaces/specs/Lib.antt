-- steps of the code; the rules stand in removal's specs/
pub mod Working
