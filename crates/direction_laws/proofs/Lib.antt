pub mod Signs
pub mod Since
pub mod Mirror
