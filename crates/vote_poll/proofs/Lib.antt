mod Adding
mod Assembly
pub mod Equality
mod BallotLaws
mod FirstBad
mod FirstFound
mod GrammarLaws
pub mod NamesLaws
mod OneReading
mod SortKeys
mod PollFaultsLaws
mod RankKeys
mod RankRow
mod ReadingLaws
mod SeenLaws
pub mod OptionLaws
pub mod MeantPolls
pub mod Squares
