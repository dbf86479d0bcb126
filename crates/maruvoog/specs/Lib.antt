pub mod Promised
pub mod Unused
