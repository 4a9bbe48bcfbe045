pub mod Laying
pub mod Marks
pub mod Passes
