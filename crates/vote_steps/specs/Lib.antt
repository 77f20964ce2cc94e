-- what the contracts of public calls say
pub mod Desks
pub mod History
pub mod Boxes
pub mod Totals
pub mod Recasts
pub mod Laws
pub mod HeldLines
pub mod Standing
pub mod LastBallots
pub mod ReplyWords
-- the values that contracts see of types, and definitions for the parts of private functions
pub mod PackedReadings
pub mod Keeping
pub mod Receiving
