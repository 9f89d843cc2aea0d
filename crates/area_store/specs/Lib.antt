pub mod Lists
pub mod Steps
pub mod Parts
pub mod Beside
pub mod Unstored
