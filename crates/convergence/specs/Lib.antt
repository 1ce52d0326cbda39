pub mod Built
pub mod Lent
