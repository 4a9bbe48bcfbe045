pub mod Picture
pub mod Settings
pub mod steps
