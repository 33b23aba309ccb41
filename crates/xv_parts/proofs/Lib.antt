pub mod Rooms
pub mod Begun
pub mod Stepping
pub mod Staying
pub mod Listed
pub mod Planned
pub mod Reading
pub mod Holding
