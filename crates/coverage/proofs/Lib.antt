pub mod Steps
pub mod Covered
