pub mod Blocks
pub mod Carried
pub mod Chosen
pub mod Counts
pub mod Places
pub mod Spelled
pub mod Unique
