pub mod Texts
mod Cases
