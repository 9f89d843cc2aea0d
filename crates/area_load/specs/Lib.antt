pub mod Counting
pub mod Placed
pub mod Under
pub mod Columns
pub mod Kinds
pub mod Maps
pub mod Pages
