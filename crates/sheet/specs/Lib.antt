pub mod Bridge
pub mod Store
pub mod Columns
