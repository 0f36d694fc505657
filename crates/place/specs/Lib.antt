pub mod Letters
pub mod Stand
