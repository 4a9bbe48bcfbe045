pub mod Nearest
pub mod IsNearest
pub mod steps
