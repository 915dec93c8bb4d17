pub mod Mirrored
pub mod Places
pub mod Products
