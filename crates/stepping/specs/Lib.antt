pub mod Kept
pub mod Answered
pub mod Whole
