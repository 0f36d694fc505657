pub mod CheckNumbers
mod Small
pub mod CureNumbers
pub mod TableNumbers
pub mod TapNumbers
