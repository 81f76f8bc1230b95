-- the file, its points and the mesh of points
pub mod Scan
pub mod Seen
-- what the call answers
pub mod Answer
-- the format the other way: the file of a header and of triangles
pub mod Format
pub mod Promises
