-- Each event keeps the contents.
pub mod Histories
pub mod Messages
pub mod Entries
pub mod Regions
pub mod Copying
pub mod Sending
pub mod Applying
pub mod Switching
pub mod Guests
pub mod Operations
pub mod Steps
pub mod Sizes
pub mod Unwritten
pub mod Runs
