pub mod Chart
pub mod Columns
pub mod Drawing
pub mod Rows
