pub mod Position
