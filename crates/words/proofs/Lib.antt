pub mod Twos
pub mod IsWord
pub mod Cases
pub mod Front
pub mod Breaks
pub mod Breaking
