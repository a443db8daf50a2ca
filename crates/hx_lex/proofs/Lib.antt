pub mod Closing
pub mod Runs
pub mod Pieces
pub mod Whole
pub mod Loop
pub mod Cut
