pub mod Counts
pub mod Acts
pub mod Keeps
pub mod OpLines
pub mod Texts
pub mod Programs
pub mod Units
