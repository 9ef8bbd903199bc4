pub mod Run
pub mod Alone
pub mod Left
pub mod IsAccepted
