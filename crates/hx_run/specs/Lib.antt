pub mod Sources
pub mod Refusals
pub mod Runs
pub mod Headline
pub mod Executions
pub mod Limits
