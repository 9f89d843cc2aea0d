pub mod Ends
pub mod Returns
