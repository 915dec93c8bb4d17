pub mod Packing
pub mod Positions
