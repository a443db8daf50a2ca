pub mod Tokens
pub mod Turns
pub mod Events
pub mod Trace
pub mod Text
pub mod Telling
pub mod Refused
