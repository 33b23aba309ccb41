pub mod Operations
pub mod OpText
pub mod Kept
pub mod Laws
