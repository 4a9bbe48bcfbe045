pub mod Search
pub mod Plane
pub mod Mask
pub mod InPlace
pub mod Bounds
pub mod Refusal
pub mod Judged
