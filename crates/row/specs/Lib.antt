pub mod Form
pub mod Judged
