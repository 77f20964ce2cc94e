-- what the contracts of public calls say
pub mod Adding
pub mod Texts
pub mod Limits
pub mod Lines
pub mod FaultWords
pub mod Names
pub mod Shown
