pub mod Half
pub mod Step
pub mod Kept
pub mod Arrival
