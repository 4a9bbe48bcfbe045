pub mod Cases
pub mod Values
pub mod Pattern
pub mod Rank
pub mod Places
pub mod Between
pub mod Laws
