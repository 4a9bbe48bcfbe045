pub mod Median
pub mod steps
