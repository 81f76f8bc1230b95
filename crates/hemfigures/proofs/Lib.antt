pub mod ByComputation
