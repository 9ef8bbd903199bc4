pub mod KitBytes
