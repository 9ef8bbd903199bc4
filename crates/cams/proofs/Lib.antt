pub mod Arithmetic
pub mod Lowest
pub mod Signals
