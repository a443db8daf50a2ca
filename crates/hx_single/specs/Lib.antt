pub mod Listing
pub mod Running
pub mod Single
