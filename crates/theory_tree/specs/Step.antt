pub mod Steps
pub mod Parts
pub mod Rules
pub mod Leaves
pub mod Names
