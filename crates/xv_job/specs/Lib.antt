pub mod Written
pub mod Words
pub mod Draft
pub mod JobText
pub mod Held
pub mod Texts
pub mod Made
