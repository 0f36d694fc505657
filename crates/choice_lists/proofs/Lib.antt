pub mod Places
pub mod Judging
