pub mod Scan
pub mod Cutting
pub mod Lines
