pub mod Records
pub mod IsLog
