pub mod Bridge
pub mod Word
