pub mod Cycle
pub mod Word
pub mod Outcome
