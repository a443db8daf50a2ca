pub mod Hands
pub mod Listings
pub mod Running
pub mod Words
