pub mod Board
pub mod Known
pub mod Keeps
pub mod Calls
pub mod Effect
pub mod Ends
pub mod Again
