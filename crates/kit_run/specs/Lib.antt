pub mod KitRun
