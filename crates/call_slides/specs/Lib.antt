pub mod Checked
pub mod Given
pub mod Begin
pub mod Questions
pub mod Changes
