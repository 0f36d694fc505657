mod Parts
mod Whole
