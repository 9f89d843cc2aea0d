pub mod Obeyed
pub mod Session
pub mod Hearing
pub mod Hears
