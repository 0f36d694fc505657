pub mod Parts
pub mod Clearing
