pub mod Receivers
pub mod Judging
