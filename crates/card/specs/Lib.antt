pub mod Hex
pub mod Card
pub mod steps
