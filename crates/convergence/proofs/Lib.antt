pub mod Ranks
pub mod Carry
pub mod Pairs
pub mod Stored
pub mod Built
pub mod Unpack
pub mod Small
pub mod Lent
