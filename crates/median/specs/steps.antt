pub mod Values
pub mod Select
