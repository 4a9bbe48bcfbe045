pub mod NextPass
pub mod Cut
