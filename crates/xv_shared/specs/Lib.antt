pub mod NoOrigin
pub mod Tallies
pub mod Held
pub mod Turns
pub mod Crews
pub mod FirstCrew
pub mod Running
