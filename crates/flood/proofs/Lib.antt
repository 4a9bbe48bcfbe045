pub mod Room
pub mod Border
pub mod Flooding
pub mod Reached
