pub mod Order
pub mod Driven
