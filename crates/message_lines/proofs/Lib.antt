pub mod Counted
mod Growing
mod Left
mod Looking
pub mod Next
mod Whole
