pub mod Same
pub mod SameHolds
pub mod Region
