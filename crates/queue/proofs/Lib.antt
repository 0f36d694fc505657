pub mod Room
pub mod Jobs
pub mod Apart
pub mod Heads
