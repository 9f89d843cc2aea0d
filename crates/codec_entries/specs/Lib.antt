pub mod Places
pub mod Arrays
pub mod Turns
