pub mod Texts
pub mod Cells
