pub mod Searching
pub mod Skipped
