pub mod Statuses
pub mod Replays
pub mod Answers
pub mod Explanations
