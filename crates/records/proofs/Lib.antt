pub mod Parts
pub mod Scanning
pub mod BadEntry
pub mod Logs
pub mod Seven
