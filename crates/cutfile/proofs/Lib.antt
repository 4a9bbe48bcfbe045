mod Pictures
pub mod Texts
pub mod Laws
