pub mod Spelling
pub mod View
pub mod Reading
pub mod Answer
