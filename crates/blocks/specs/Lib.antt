pub mod Store
pub mod Room
