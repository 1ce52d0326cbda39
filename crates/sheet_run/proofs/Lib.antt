pub mod Showing
pub mod Examples
pub mod Room
pub mod Turns
pub mod Opened
