pub mod Logic
pub mod Ranges
pub mod Lists
pub mod Sets
pub mod Rules
