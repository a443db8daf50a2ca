pub mod Nodes
pub mod Tokens
pub mod Spelled
pub mod Runs
pub mod Meanings
pub mod Measures
pub mod Acceptance
pub mod Kept
