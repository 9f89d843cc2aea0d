pub mod Book
pub mod Events
pub mod Demand3
