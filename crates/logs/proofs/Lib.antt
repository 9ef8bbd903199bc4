pub mod Thirds
pub mod Apart
pub mod Going
pub mod Answers
pub mod Accepts
