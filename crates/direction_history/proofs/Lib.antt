pub mod Stands
pub mod OneList
