pub mod Counted
pub mod Boards
