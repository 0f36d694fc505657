pub mod Walks
pub mod Judged
