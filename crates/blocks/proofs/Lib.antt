pub mod Questions
pub mod Order
pub mod Starts
pub mod Passes
pub mod FieldsRead
