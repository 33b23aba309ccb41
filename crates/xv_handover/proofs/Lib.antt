pub mod Aborts
pub mod Sayings
pub mod Scripts
pub mod Sound
pub mod Told
pub mod Programs
pub mod Fronts
pub mod Beginnings
