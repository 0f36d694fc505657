pub mod Plain
mod Walking
mod Deciding
