pub mod Faults
pub mod Axes
pub mod Block
pub mod Words
pub mod Readings
pub mod Written
