pub mod Sinks
pub mod Numbers
pub mod Places
pub mod Digits
