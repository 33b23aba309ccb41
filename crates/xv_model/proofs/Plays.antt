-- Whole runs: the journal that events make, the units that are never written, and the units that are settled.
pub mod Played
pub mod Unwritten
pub mod Settled
