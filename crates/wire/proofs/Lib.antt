pub mod Ranges
pub mod Codec
pub mod Cases
