pub mod Order
pub mod Chosen
pub mod Numbered
pub mod Same
pub mod Effective
