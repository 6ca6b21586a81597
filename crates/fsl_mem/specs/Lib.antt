pub mod Slots
pub mod Candidates
pub mod Order
pub mod Orders
pub mod Memory
