pub mod Keys
pub mod Bytes
pub mod Leaves
