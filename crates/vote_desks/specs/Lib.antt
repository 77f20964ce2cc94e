-- what private functions say about their parts
pub mod Work
pub mod Workers
pub mod Back
pub mod Stops
