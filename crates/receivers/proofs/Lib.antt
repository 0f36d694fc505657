mod Deciding
mod Looking
