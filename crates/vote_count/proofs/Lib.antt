pub mod Cells
pub mod Closure
pub mod Rows
pub mod RoundLemmas
pub mod Sizes
pub mod LawLemmas
pub mod Winners
pub mod BitLemmas
pub mod Counts
pub mod Strengths
pub mod Schulze
pub mod Raising
pub mod Clones
pub mod Pareto
mod TurnLanes
mod Turns
mod RunningLemmas
pub mod Determined
mod Filled
pub mod Examples
pub mod Tests
pub mod Existence
pub mod Left
pub mod FinalSets
