pub mod Boards
pub mod Masks
pub mod Scenarios
