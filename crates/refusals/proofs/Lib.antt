pub mod Readings
pub mod Deciding
pub mod Naming
pub mod Accessing
pub mod Preparing
pub mod Ending
pub mod Entries
pub mod Whys
