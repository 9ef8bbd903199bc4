pub mod Running
pub mod Since
