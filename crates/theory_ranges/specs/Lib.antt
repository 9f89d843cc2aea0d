pub mod Pages
pub mod Batches
pub mod Records
pub mod Ranged
pub mod Histories
pub mod Growing
