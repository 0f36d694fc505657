pub mod Options
pub mod Letters
