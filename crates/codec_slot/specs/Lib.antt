pub mod Typed
pub mod Shown
pub mod Written
