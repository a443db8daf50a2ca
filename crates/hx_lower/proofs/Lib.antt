pub mod Nodes
pub mod Puts
pub mod Codes
