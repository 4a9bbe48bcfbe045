pub mod FirstLeast
pub mod Line
pub mod Lent
pub mod Columns
pub mod Envelope
pub mod Run
