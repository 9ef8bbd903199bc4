pub mod FreshRows
pub mod Telling
