pub mod Shares
pub mod Rows
pub mod Joins
