pub mod Sheet
pub mod Spans
