pub mod Running
pub mod steps
