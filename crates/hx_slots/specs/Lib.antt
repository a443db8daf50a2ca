pub mod Slot
pub mod Slots
pub mod Index
