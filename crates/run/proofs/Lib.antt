pub mod Rows
pub mod States
pub mod Typed
pub mod Written
