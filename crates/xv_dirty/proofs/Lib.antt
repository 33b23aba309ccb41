pub mod Words
pub mod Summing
pub mod Members
pub mod Kept
