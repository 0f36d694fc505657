pub mod Pairs
pub mod Bits
pub mod Words
