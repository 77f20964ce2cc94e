pub mod Asking
pub mod Writing
pub mod Walks
