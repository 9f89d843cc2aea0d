pub mod Typed
pub mod Shown
pub mod Judged
pub mod Layouts
pub mod Working
