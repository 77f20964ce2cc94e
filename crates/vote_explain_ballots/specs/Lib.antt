pub mod Places
pub mod Remarks
pub mod Tables
pub mod Refusals
pub mod Explained
