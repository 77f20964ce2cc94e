-- what the contracts of public calls say
pub mod Slips
pub mod Desks
pub mod Entering
pub mod Answering
pub mod Books
