pub mod Pages
pub mod Records
