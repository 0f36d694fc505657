pub mod Admission
pub mod Replies
