-- what the contracts of public calls say
pub mod LoadedRequests
pub mod FileReadings
pub mod ArgsStatus
pub mod Outputs
pub mod Errors
pub mod RequestEnds
pub mod ProgramAnswers
pub mod SheetOfFiles
pub mod CountEnds
-- what follows from them
pub mod CountLaws
-- what private functions say of their parts
pub mod LineParts
