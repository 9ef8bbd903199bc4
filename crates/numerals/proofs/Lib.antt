pub mod Widths
pub mod Laws
pub mod Splices
pub mod Room
pub mod Placed
