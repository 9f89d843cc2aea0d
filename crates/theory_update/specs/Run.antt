pub mod Keeps
pub mod Tracks
pub mod Wrote
pub mod Way
pub mod Lawful
