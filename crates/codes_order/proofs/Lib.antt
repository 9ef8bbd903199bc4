pub mod Order
pub mod Only
pub mod Few
