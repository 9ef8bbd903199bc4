pub mod Lists
pub mod Rules
pub mod Cycle
pub mod Runs
pub mod Kept
