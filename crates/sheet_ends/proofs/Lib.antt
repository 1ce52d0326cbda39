pub mod Lists
pub mod Benches
pub mod Calls
pub mod Wholes
pub mod Steps
pub mod Opened
pub mod Turning
