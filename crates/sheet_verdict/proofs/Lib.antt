mod Reading
mod Whole
