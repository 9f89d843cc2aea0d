pub mod Kept
pub mod Parts
