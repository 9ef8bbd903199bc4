pub mod Calls
pub mod BoardDemand3
