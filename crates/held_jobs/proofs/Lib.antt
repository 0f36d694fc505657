pub mod Members
pub mod Cases
pub mod Serving
