pub mod Passed
pub mod Added
pub mod Sim
mod SimMessage
mod SimOrder
mod Together
pub mod Scenarios
mod Turns
pub mod Again
