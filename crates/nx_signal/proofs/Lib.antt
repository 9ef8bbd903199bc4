pub mod Steady
pub mod Cases
