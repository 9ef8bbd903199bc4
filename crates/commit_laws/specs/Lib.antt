pub mod NeverLowers
pub mod LoneCommit
pub mod Reached
