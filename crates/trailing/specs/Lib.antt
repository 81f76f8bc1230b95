-- the wires that rows over places have, and what the functions rest on
pub mod Trailing
