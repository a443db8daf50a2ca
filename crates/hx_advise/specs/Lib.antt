pub mod Events
pub mod Watch
pub mod Regions
pub mod Course
pub mod Runs
