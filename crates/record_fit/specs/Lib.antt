pub mod Tests
pub mod Order
pub mod Pages
pub mod Rows
pub mod Shares
