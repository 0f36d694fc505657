pub mod Lent
pub mod Reached
