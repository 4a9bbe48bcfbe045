pub mod Indices
pub mod Searching
