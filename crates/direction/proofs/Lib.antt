pub mod Extreme
