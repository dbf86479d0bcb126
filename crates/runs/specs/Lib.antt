pub mod Cut
pub mod First
pub mod Kept
pub mod Ran
pub mod Stepped
