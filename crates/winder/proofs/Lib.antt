mod Sizes
mod Underway
mod Rounds
