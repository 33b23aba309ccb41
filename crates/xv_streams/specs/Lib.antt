pub mod Taking
pub mod Lanes
pub mod Gathered
pub mod Streamed
pub mod Carried
pub mod Groups
pub mod Returned
pub mod Fronts
