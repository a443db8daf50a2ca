pub mod Columns
pub mod Lanes
pub mod Shifts
pub mod Tables
pub mod Windows
