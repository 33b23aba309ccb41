-- Events that move messages, and the switchover.
pub mod Moved
pub mod Lanes
pub mod BySource
pub mod ByDest
pub mod Settled
pub mod Events
pub mod Waits
