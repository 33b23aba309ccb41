pub mod Versions
pub mod VersionSteps
pub mod Times
pub mod TimeSteps
pub mod Outboxes
pub mod OutboxSteps
pub mod CreditSteps
