pub mod Lacking
pub mod Reasons
