pub mod Rooms
pub mod Rows
