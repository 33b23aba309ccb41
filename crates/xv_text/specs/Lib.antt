pub mod Lines
pub mod Cuts
pub mod Fields
pub mod Row
pub mod Print
pub mod Reading
pub mod Words
