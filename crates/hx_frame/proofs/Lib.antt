pub mod Stretches
pub mod Kept
