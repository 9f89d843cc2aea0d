pub mod Checks
pub mod Image
pub mod Redoing
pub mod Answering
pub mod Settled
pub mod Recovered
