pub mod Header
pub mod HeaderText
pub mod EarlierHeader
pub mod steps
