pub mod Run
pub mod Running
pub mod Since
