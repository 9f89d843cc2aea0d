pub mod Refusals
pub mod Entered
pub mod Whole
