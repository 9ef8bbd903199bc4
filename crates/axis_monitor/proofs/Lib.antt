pub mod Channels
pub mod Lists
