pub mod Kit
pub mod AreLists
