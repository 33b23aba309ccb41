pub mod Unmigrated
