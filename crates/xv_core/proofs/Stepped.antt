-- Each event is a step as contracts see it.
pub mod Waited
pub mod Stays
pub mod Steps
pub mod Waits
pub mod Numbered
pub mod Causes
pub mod DestKept
pub mod ReadsBehind
pub mod TakesFind
pub mod After
pub mod Origins
pub mod ReadOn
