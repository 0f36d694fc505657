pub mod Steps
pub mod Seeking
pub mod Closing
