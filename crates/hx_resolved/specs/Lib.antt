pub mod Resolved
pub mod Views
pub mod Carried
pub mod Symbols
pub mod Counts
pub mod Resolve
pub mod Rows
