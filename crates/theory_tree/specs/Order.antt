pub mod Keys
pub mod Sorted
pub mod Search
pub mod Covers
