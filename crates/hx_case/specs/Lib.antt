pub mod Pointed
pub mod Names
pub mod Known
pub mod Input
