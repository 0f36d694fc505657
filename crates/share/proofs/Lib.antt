pub mod Bits
pub mod Turns
