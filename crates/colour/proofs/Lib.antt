pub mod Compare
pub mod Zero
pub mod Order
pub mod Range
pub mod Bytes
pub mod Same
pub mod Cases
