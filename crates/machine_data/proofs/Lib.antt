pub mod Tests
pub mod Stands
pub mod Bounds
pub mod Lacks
