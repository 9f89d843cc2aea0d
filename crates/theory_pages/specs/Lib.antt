pub mod Rows
pub mod Layout
pub mod StepLayout
pub mod Growth
pub mod Restartable
pub mod UpdatePages
pub mod FormattedPages
pub mod FitLayout
