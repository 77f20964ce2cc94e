pub mod Lines
pub mod HintLaws
pub mod Edits
