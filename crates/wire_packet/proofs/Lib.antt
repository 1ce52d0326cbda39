pub mod Ends
pub mod Handing
