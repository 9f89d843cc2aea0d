pub mod Grown
pub mod Lines
pub mod Rounds
pub mod Marking
pub mod Ending
pub mod Due
pub mod Settling
