pub mod Exchange
pub mod Fits
pub mod Keeps
pub mod Moves
pub mod Square
pub mod Laws
pub mod Cases
