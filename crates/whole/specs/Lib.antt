pub mod Whole
pub mod Stands
pub mod Bits
