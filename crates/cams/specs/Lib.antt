pub mod Cams
pub mod Lowest
