pub mod Equal
pub mod Stands
pub mod Nan
pub mod Part
pub mod Reading
