-- The laws of the words that the steps of `ends` write, read in this order.
pub mod Loops
pub mod Fronts
pub mod Objects
pub mod Entries
pub mod Places
pub mod Scans
pub mod Cuts
pub mod Undo
pub mod Crash
pub mod Commit
pub mod Fresh
pub mod Settle
pub mod Restart
pub mod Leaves
