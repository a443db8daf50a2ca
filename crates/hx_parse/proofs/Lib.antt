pub mod Marks
pub mod Loops
pub mod Steps
pub mod Refused
