pub mod Datum
pub mod Written
