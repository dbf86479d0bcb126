pub mod Closed
pub mod Turns
