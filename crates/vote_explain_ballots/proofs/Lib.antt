pub mod Words
pub mod Scanning
pub mod Listing
pub mod BoxReplies
pub mod Counting
pub mod Ballots
