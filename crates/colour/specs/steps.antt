pub mod Range
pub mod Pixel
