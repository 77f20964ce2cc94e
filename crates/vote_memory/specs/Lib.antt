-- what the contracts of public calls say
pub mod Files
pub mod CountWords
pub mod MemoryCounts
-- how the logic keeps the readings
pub mod ReadingsCode
