pub mod Each
pub mod Fine
pub mod Acting
pub mod Rows
