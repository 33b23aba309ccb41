pub mod Tournament
pub mod Messages
pub mod Arrival
pub mod Chains
pub mod Kept
pub mod Fields
