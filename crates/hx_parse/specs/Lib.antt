pub mod Gives
pub mod Answer
