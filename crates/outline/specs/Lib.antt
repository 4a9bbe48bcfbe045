pub mod Border
pub mod Ground
pub mod Growth
pub mod Cut
pub mod Refusal
pub mod Answer
pub mod Calls
pub mod Premises
