pub mod Begun
pub mod Cases
pub mod Counting
pub mod Parts
pub mod Put
