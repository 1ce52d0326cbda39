pub mod Words
pub mod Numbers
pub mod Ranks
pub mod Called
pub mod ItemBytes
