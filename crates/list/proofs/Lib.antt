pub mod Sweep
pub mod Array
pub mod Pad
pub mod Zero
pub mod Parts
pub mod Items
pub mod Places
pub mod Seconds
