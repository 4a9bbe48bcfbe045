pub mod Cutcard
pub mod Earlier
pub mod steps
