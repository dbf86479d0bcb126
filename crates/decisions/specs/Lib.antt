pub mod Facts
pub mod Orders
pub mod Ends
