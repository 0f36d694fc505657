pub mod Numbers
pub mod Pair
pub mod Cures
pub mod Tables
pub mod Tapped
