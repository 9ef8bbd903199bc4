pub mod Runs
pub mod Marked
pub mod Example
pub mod Sharp
pub mod Wordings
pub mod Commits
