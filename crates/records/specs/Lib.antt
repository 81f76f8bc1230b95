-- the rules, which a caller cites
pub mod Lengths
pub mod Kinds
pub mod Records
-- what they come to, by the numbers of the requests
pub mod Promises
pub mod Kind6
