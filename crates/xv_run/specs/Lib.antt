pub mod Words
pub mod Refused
pub mod Journal
pub mod Numbers
pub mod Run
pub mod Promise
