-- How a migration begins.
pub mod KeepsStart
pub mod Begun
pub mod InMemory
pub mod Given
