pub mod Run
pub mod Find
pub mod Add
pub mod Remove
pub mod Ending
pub mod Updates
pub mod Laws
