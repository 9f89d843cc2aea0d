pub mod Shown
pub mod Written
pub mod FromBytes
pub mod Links
pub mod Runs
pub mod Outcomes
pub mod ReadBack
pub mod ListBytes
