mod Table
pub mod Well
mod Whole
