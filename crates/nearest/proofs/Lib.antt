pub mod Cases
pub mod Sweep
pub mod Laws
pub mod Stages
pub mod Rows
pub mod Indexed
