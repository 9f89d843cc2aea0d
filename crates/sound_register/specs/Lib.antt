pub mod Logs
pub mod Parts
pub mod Reserved
pub mod Standing
pub mod Judged
