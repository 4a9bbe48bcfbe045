pub mod Lengths
mod Cases
