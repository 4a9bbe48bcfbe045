mod Comparing
mod Lines
mod Numbers
mod Sides
pub mod Sizes
pub mod HeaderLaws
pub mod EarlierLaws
pub mod Cases
