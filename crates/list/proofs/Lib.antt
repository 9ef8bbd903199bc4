pub mod Steps
pub mod Passed
pub mod Accepts
