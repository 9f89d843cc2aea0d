pub mod LineRoom
pub mod AbortRoom
