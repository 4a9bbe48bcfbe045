pub mod TwoPictures
pub mod EarlierLaws
