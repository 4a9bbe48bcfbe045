pub mod Complement
pub mod Sides
pub mod Judged
pub mod Buffer
pub mod Accepted
