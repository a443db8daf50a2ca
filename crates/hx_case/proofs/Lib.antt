pub mod Feeds
pub mod BadWords
pub mod Declarations
pub mod Said
