pub mod Computing
pub mod Marked
pub mod Sharp
pub mod Wordings
pub mod Commits
