pub mod Answers
pub mod Searched
pub mod Backwards
pub mod Descent
