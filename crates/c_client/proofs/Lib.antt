pub mod Ends
pub mod Capped
pub mod Calls
