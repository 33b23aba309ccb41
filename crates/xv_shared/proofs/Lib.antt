pub mod Growing
pub mod Entries
pub mod Mustered
pub mod Summing
pub mod Holding
pub mod Passing
pub mod Running
