pub mod Twos
pub mod Back
