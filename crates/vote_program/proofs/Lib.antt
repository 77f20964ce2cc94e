pub mod OnFiles
pub mod Readings
pub mod Asked
pub mod Sheets
pub mod Ends
mod CountLaws
