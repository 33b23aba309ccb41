pub mod Told
pub mod Took
