-- Events that touch the source's half alone: the copy, the pages, the stun and the cancel.
pub mod SourceAlone
pub mod SourceEvents
pub mod SourceSettled
pub mod SourceWaits
pub mod Cancelling
