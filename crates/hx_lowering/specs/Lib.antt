pub mod Size
pub mod Lines
pub mod Draft
pub mod Correct
pub mod Laws
