-- what the contracts of public calls say
pub mod Device
pub mod Sources
-- what types stand for
pub mod Meter
