pub mod Walks
pub mod Keys
pub mod Rows
pub mod Alternating
pub mod Apart
pub mod Agreeing
pub mod Rule
