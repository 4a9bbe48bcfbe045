pub mod Decimal
pub mod steps
