pub mod Selection
pub mod Order
pub mod Chosen
