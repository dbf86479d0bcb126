pub mod Promise
pub mod Runs
pub mod Hollow
