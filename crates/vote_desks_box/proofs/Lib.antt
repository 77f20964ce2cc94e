pub mod ClosingLemmas
pub mod Merging
pub mod Ranges
pub mod Numbered
pub mod SlipSums
