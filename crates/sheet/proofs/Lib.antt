pub mod Reading
pub mod Bridge
pub mod Simulation
pub mod Body
pub mod Storing
pub mod Whole
