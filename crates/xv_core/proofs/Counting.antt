-- What devices and wires count, against the calls of the journal.
pub mod Steps
pub mod Wires
pub mod Journal
pub mod Fit
pub mod Faults
pub mod Rises
pub mod Start
pub mod Room
