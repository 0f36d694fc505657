pub mod Lists
pub mod Filling
pub mod Written
pub mod Closing
