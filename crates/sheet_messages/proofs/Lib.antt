mod OfSheet
mod Telling
mod Whole
