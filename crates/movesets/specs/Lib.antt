pub mod Control
pub mod Actions
pub mod Movesets
