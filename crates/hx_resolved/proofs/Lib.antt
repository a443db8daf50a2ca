pub mod Nodes
mod Filters
