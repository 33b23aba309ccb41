pub mod Fields
pub mod Frame
pub mod Faults
pub mod Reading
pub mod Heads
pub mod Laws
pub mod Size
