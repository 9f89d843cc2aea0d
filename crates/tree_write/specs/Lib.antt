pub mod Shows
pub mod Taking
