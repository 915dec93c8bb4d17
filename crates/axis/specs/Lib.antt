pub mod Reference
pub mod Responses
pub mod Calls
pub mod Examples
