mod Leaving
mod Cancelling
