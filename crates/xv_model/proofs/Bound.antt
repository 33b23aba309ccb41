pub mod Guests
pub mod Weights
pub mod Effects
pub mod Runs
pub mod WorkedJobs
pub mod Driven
