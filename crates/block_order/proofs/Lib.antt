pub mod Noting
pub mod Held
pub mod Rows
