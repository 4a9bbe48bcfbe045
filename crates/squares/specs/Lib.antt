pub mod Squares
pub mod Work
pub mod steps
