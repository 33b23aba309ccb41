-- The calls on the outside: their kinds, their ranges, and the writes that they make.
pub mod Calls
pub mod Counts
