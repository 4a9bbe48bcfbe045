pub mod steps
pub mod Refusal
pub mod Crop
pub mod Fill
pub mod Calls
