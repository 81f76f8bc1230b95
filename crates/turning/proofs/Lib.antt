-- small covers, by computation: first, so that an edit of the rule is refused by them
pub mod ByComputation
-- edges of rings that are changed element by element
pub mod Edgewise
-- turning: the next edge in a face, crossing, and both until a hem edge is reached
pub mod Rounds
pub mod Next
pub mod Crossing
pub mod Onward
pub mod Steps
-- the same by places and rows, as code has it
pub mod Places
pub mod Tables
-- the wires
pub mod Smallest
pub mod Closing
pub mod Listed
pub mod Promised
