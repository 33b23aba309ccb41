pub mod Listed
pub mod Able
pub mod Goes
pub mod Driving
pub mod Following
pub mod Switching
