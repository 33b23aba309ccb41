-- What a migration tells.
pub mod Told
pub mod OfUnit
pub mod Issued
pub mod SumsOf
