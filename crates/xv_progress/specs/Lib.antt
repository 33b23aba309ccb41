pub mod Numbers
pub mod Words
pub mod Steps
pub mod Passes
