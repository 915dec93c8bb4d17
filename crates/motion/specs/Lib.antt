pub mod Braking
pub mod Planning
pub mod Laws
