-- The numbers of progress.
pub mod Lists
pub mod Numbers
pub mod Runs
