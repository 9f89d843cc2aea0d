pub mod Below
pub mod Batches
pub mod Holding
pub mod Reading
pub mod Lines
