-- what the contracts of public calls say
pub mod Audit
pub mod Faults
pub mod Words
pub mod Limits
pub mod Standing
-- what private functions say about their parts
pub mod Comparing
