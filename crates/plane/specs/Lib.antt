pub mod Search
pub mod Plane
pub mod Mask
pub mod Box
pub mod Refusal
pub mod steps
