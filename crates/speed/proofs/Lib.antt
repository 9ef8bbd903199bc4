pub mod Bounds
pub mod Load
