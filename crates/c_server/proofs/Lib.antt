pub mod Ends
pub mod Loops
pub mod Capped
pub mod Calls
