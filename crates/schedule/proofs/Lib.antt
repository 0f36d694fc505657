pub mod Gathering
pub mod Running
