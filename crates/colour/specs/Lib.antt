pub mod Number
pub mod Colour
pub mod Join
pub mod Weight
pub mod Settings
pub mod steps
