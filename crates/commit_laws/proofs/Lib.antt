pub mod NeverLowers
pub mod OfK
pub mod Differing
pub mod Alike
pub mod LoneCommit
pub mod Reached
