pub mod DatumFault
pub mod IsFault
pub mod ListsFault
pub mod FaultAt
pub mod LogFault
pub mod KitFault
pub mod BenchFault
