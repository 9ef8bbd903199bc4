pub mod Joined
pub mod Forms
pub mod Written
