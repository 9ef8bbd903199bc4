pub mod Stops
pub mod Rows
pub mod Cycles
pub mod Demand2
pub mod Codes
