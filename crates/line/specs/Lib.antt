pub mod Line
pub mod Keeping
pub mod Sending
pub mod Taking
pub mod Packet
pub mod Sound
pub mod Slots
