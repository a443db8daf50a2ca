pub mod Opening
pub mod Passing
pub mod Running
pub mod Plain
pub mod Ran
pub mod Entry
pub mod Rooms
pub mod Laws
