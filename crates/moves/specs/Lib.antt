pub mod Numbers
pub mod Moves
pub mod State
pub mod SetUp
pub mod Completing
pub mod Partner
