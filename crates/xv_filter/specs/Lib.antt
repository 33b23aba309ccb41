pub mod Sides
pub mod Queue
