pub mod Words
pub mod Loops
pub mod Parts
pub mod Ranked
pub mod Counts
pub mod Called
pub mod ItemBytes
