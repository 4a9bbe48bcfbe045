pub mod Accepted
mod Filling
pub mod Numbers
