pub mod Digit
pub mod Range
pub mod Named
