pub mod Sources
pub mod Runs
pub mod Headline
pub mod Executions
pub mod Behind
