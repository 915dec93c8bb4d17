pub mod Analog
pub mod Mirror
pub mod Orders
pub mod Output
pub mod Refusals
pub mod Values
