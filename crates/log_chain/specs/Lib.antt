pub mod Shown
pub mod Steps
pub mod Families
pub mod Ends
pub mod Undos
