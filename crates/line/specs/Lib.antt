pub mod Walk
pub mod Grid
pub mod steps
