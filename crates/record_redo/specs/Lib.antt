pub mod Slots
pub mod Outcomes
pub mod AtOnce
pub mod Copies
pub mod Pairs
pub mod Logs
