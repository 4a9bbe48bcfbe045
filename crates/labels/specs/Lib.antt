pub mod Labels
pub mod steps
