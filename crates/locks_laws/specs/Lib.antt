-- What the steps of a running transaction leave in the words, read in this order.
pub mod Left
pub mod Fields
pub mod Started
pub mod Accessed
pub mod Prepared
pub mod Saved
pub mod Bounds
