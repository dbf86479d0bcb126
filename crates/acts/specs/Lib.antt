pub mod Acted
pub mod Fates
