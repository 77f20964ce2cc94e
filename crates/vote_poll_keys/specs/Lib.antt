-- what the contracts of public calls say
pub mod Keys
pub mod KeyFaults
pub mod FaultWords
pub mod Lists
-- the values that contracts see of types
pub mod FoundView
