pub mod BatchLemmas
pub mod BackLemmas
pub mod StopLemmas
