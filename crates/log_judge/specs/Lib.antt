pub mod Updates
pub mod Turns
pub mod Alone
pub mod Rest
pub mod Judging
pub mod Accepted
