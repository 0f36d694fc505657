mod Reading
mod Whole
mod Bounds
