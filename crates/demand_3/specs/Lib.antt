pub mod Calls
pub mod History
pub mod Claims
pub mod Demand3
pub mod OneList
pub mod ShownOnly
