pub mod Under
pub mod Level
pub mod Levels
pub mod Rules
pub mod Nodes
pub mod Above
pub mod Turns
