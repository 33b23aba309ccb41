-- What a journal tells of its run.
pub mod Ways
pub mod Kinds
pub mod Phases
pub mod Ends
pub mod Waits
pub mod Guests
pub mod OneStep
