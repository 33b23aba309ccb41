pub mod Passing
pub mod Pushing
pub mod Piping
