pub mod OnePage
pub mod Area
pub mod Current
pub mod Count
pub mod Fits
pub mod Grown
