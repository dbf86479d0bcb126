-- What the code tests, and why words that pass are the sound ones, read in this order.
pub mod Tells
pub mod Highest
pub mod Index
pub mod Test
pub mod Parted
pub mod Seats
pub mod Standing
pub mod Bits
pub mod Found
pub mod At
pub mod Placed
pub mod Chained
pub mod Objects
pub mod Told
