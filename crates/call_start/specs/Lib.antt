pub mod Column
pub mod Linking
pub mod Refusals
