pub mod Entries
pub mod Places
pub mod Rounds
pub mod Scans
