pub mod Races
pub mod Boards
pub mod Words
pub mod Search
