pub mod OnlyEdge
pub mod SingleStarts
