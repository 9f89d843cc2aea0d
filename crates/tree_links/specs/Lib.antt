pub mod Leaves
pub mod Linking
