-- The plans of devices and wires, against the flags of the journal.
pub mod Takes
pub mod Lanes
pub mod Live
pub mod Pieces
pub mod Follow
pub mod Rise
