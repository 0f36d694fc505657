pub mod Turning
pub mod Replies
