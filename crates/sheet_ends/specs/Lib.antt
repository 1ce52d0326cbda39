pub mod Bench
pub mod Ends
pub mod Orders
