pub mod Views
pub mod Measures
pub mod Refusals
pub mod Opening
pub mod Reading
