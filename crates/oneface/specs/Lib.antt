-- steps of the code; the rules stand in folding's specs/Folding.antt
pub mod Working
