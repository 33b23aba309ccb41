pub mod Within
pub mod Sums
pub mod Blocks
pub mod Partition
pub mod Hexes
pub mod Patterns
