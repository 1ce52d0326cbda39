pub mod Sink
pub mod Decimal
pub mod Parts
pub mod Lines
