pub mod Share
pub mod Twins
pub mod Joining
pub mod Neighbours
pub mod Restocking
pub mod Descent
