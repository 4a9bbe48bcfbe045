pub mod Accepted
pub mod TwoPictures
pub mod EarlierLaws
pub mod NextPassLaws
pub mod Numbers
