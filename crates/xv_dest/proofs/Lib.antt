pub mod Steps
pub mod Telling
pub mod Held
pub mod Writes
pub mod GuestMoves
pub mod Arrivals
