-- The story of a journal agrees with the view that its run ends in.
pub mod Views
pub mod Answers
pub mod Runs
