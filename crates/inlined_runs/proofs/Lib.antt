mod Shorts
mod Twins
