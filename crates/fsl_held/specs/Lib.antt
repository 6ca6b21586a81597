pub mod Asked
pub mod Heaps
pub mod Laws
pub mod Parts
