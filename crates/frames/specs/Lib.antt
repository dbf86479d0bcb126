pub mod Parsed
pub mod Parts
pub mod Shape
pub mod Uses
