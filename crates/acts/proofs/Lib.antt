pub mod Asked
pub mod Answered
pub mod Ordered
pub mod Allowed
pub mod Accessed
pub mod Open
pub mod Reasons
