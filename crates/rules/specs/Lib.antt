-- The rules, read in this order.
pub mod Tests
pub mod Sets
pub mod Tables
pub mod Sound
pub mod Falls
pub mod Steps
pub mod Answers
pub mod Layout
pub mod Frames
pub mod Session
pub mod Runs
pub mod Cases
pub mod History
pub mod Truth
