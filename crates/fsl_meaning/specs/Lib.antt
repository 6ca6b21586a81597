pub mod Branches
pub mod Deciding
pub mod Heaps
pub mod Laws
pub mod Means
pub mod States
