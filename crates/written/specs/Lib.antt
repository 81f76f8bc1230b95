-- the rules, to hold beside the document
pub mod Pieces
pub mod Answer
-- what is promised
pub mod Promises
-- the file by the flat lists of its mesh, as the code goes through them
pub mod Parts
-- which pieces come back, and what they draw
pub mod Said
