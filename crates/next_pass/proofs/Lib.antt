mod Counts
pub mod Laws
mod Cases
