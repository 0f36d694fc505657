pub mod Covering
pub mod Hiding
