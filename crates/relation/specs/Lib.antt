pub mod Width
pub mod Rows
pub mod Order
pub mod Scenario
pub mod Own
