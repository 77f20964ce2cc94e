-- what the contracts of public calls say
pub mod Hints
pub mod FileKinds
pub mod Commands
pub mod Near
