-- what the contracts of public calls say
pub mod Ballots
pub mod Votes
pub mod Sets
pub mod Rules
pub mod Rounds
pub mod Laws
-- the values that contracts see of types, and definitions for the parts of private functions
pub mod Bits
pub mod Rows
pub mod Changes
pub mod Weakest
