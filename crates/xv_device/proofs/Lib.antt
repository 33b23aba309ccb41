pub mod Places
pub mod Pieces
pub mod Filling
pub mod Sized
pub mod Made
pub mod OnPages
pub mod FreshlyMade
