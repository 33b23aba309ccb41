pub mod Wire
pub mod Told
pub mod Lengths
pub mod Memory
