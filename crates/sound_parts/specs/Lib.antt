pub mod Passes
pub mod Laid
pub mod LaidWork
pub mod Stored
pub mod Desks
pub mod Reserves
