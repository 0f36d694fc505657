pub mod Joined
pub mod Loops
