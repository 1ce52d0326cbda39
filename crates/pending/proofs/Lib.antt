pub mod Forms
pub mod Slot
pub mod Slots
pub mod Crossing
