-- what a caller is told who has a file drawn into lists of its own
pub mod Drawing
-- what the reader's functions hand to one another
pub mod Working
