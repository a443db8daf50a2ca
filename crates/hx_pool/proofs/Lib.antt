pub mod Asked
pub mod Later
