pub mod Message
pub mod Bytes
pub mod Codec
pub mod Cases
pub mod Size
pub mod Buffer
