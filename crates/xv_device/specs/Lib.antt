pub mod Device
pub mod Told
pub mod Pieces
pub mod Memory
pub mod Operations
pub mod Files
pub mod MemFiles
