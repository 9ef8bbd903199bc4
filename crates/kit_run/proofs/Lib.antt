pub mod Answers
pub mod Cycles
