pub mod Texts
pub mod Workers
pub mod Json
