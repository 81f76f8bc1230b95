-- steps of the code
pub mod Looking
