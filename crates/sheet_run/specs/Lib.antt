pub mod Shown
pub mod Output
