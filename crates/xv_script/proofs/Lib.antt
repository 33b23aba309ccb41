pub mod Few
pub mod Sayings
pub mod Scripts
pub mod Ends
pub mod Beginnings
