pub mod Rounds
pub mod Falls
