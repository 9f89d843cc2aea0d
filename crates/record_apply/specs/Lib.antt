pub mod Lists
pub mod Pages
pub mod Roles
pub mod Changes
