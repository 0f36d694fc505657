pub mod Lines
pub mod Storing
pub mod Whole
