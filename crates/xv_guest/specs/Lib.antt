pub mod Log
pub mod Plain
