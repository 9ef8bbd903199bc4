pub mod Words
pub mod Cases
pub mod IsWord
pub mod Breaks
