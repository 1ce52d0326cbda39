pub mod View
pub mod Undo
pub mod Answers
pub mod Taking
pub mod Packets
