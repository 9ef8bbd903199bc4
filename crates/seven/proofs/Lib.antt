pub mod ByBits
