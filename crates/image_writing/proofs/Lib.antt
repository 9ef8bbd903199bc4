pub mod Back
pub mod Entire
