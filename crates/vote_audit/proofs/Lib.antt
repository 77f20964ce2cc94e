pub mod AuditLemmas
pub mod StretchLemmas
pub mod CountLemmas
pub mod SlipLemmas
