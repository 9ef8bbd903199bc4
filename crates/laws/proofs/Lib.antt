pub mod Never
pub mod Bools
