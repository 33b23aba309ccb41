pub mod Beside
pub mod Single
