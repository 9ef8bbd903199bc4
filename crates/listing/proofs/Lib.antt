pub mod Told
pub mod Texts
