pub mod Decimal
pub mod Input
pub mod Texts
pub mod Puts
pub mod Worked
