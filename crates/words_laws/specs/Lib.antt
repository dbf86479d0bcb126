-- The layout's laws, read in this order.
pub mod Parts
pub mod Says
pub mod Fits
pub mod Unpacked
pub mod Sized
pub mod Words
pub mod Writes
