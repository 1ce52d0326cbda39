pub mod Texts
pub mod Orders
mod Openings
