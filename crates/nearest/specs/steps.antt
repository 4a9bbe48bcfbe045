pub mod Stages
pub mod Indices
pub mod Towards
