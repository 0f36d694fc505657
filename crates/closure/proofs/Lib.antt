pub mod Inserted
pub mod Closed
pub mod Loops
pub mod Lowest
