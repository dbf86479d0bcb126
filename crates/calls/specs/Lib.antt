pub mod Calls
pub mod Kinds
pub mod Meaning
