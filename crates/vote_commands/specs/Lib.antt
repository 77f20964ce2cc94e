-- what the contracts of public calls say
pub mod Inputs
pub mod TextAndEnd
pub mod Joined
pub mod Runs
pub mod Counting
pub mod TakingVotes
pub mod TakenVotes
pub mod Explaining
pub mod Performing
pub mod OneText
pub mod Status
pub mod Words
-- what private functions say about their parts
pub mod Reading
