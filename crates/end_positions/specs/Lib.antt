pub mod EndPositions
