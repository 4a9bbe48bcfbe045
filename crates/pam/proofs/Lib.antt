pub mod Files
mod Cases
