pub mod Speed
pub mod Load
