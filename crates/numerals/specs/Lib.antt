pub mod Numerals
pub mod Written
