-- The versions issued are those applied and those outstanding.
pub mod Splits
pub mod Versions
pub mod WorkedJobs
pub mod Room
