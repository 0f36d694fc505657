pub mod Messages
pub mod Events
