pub mod Bridge
pub mod Parts
