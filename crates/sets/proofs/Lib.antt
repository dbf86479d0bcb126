pub mod Both
pub mod Members
