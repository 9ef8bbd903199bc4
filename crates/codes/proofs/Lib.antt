pub mod Listing
pub mod Empty
