-- steps of the code; the rules stand in splitting's specs/Splitting.antt and in folding's specs/
pub mod Working
