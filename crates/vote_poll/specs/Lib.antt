-- what the contracts of public calls say
pub mod Limits
pub mod Options
pub mod Ranks
pub mod Names
pub mod PollContent
pub mod Quorum
pub mod PollValues
pub mod PollFile
pub mod Meant
pub mod PollFaults
pub mod BallotLine
pub mod Readings
pub mod Spelling
pub mod Comparisons
pub mod SortKeys
-- the values that contracts see of types, and definitions for the parts of private functions
pub mod PollView
pub mod NameLists
pub mod Parsing
