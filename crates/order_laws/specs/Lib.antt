pub mod Changes
pub mod Earlier
pub mod Waits
pub mod Order
