pub mod Data
pub mod Lists
pub mod Kits
pub mod LogFaults
pub mod Logs
pub mod KitRuns
pub mod Bench
