pub mod First
pub mod Started
pub mod Call
