pub mod Rates
pub mod Standing
pub mod Jogging
pub mod Homing
pub mod Travel
pub mod Tick
pub mod Commands
