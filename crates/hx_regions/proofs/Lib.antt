pub mod Stores
pub mod Words
pub mod Plain
pub mod Agree
