-- the rules, which a caller cites
pub mod Triples
