pub mod Reading
pub mod Whole
pub mod Listed
