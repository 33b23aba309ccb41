-- What a running migration keeps, and what follows of it for the calls of its halves.
pub mod Joined
pub mod Keeps
pub mod Counts
pub mod Calls
pub mod Reads
pub mod SeenKept
