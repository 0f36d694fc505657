pub mod Choosing
pub mod Letters
