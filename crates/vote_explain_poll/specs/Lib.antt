-- what the contracts of public calls say
pub mod UnreadKeys
pub mod Syntax
pub mod Findings
