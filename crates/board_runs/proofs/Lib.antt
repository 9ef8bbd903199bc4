pub mod Runs
pub mod BoardDemand3
