pub mod Plans
pub mod Kinds
pub mod Memory
pub mod Sides
