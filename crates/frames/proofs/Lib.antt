pub mod Stretches
pub mod Lines
