pub mod Chains
pub mod Fitting
pub mod Growing
pub mod Living
pub mod Scanning
pub mod Settling
pub mod Writers
