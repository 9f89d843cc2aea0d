pub mod Search
pub mod Places
pub mod Halves
pub mod Leaf
pub mod Fetching
pub mod Backwards
