pub mod Order
pub mod Shape
pub mod Change
pub mod Test
pub mod Step
