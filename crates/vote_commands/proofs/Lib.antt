pub mod FirstPlace
pub mod HeldLines
pub mod JoinedLaws
pub mod TextLaws
pub mod Stopping
pub mod Taking
