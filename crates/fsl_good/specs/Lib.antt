pub mod Pieces
pub mod Good
pub mod Keeping
pub mod Laws
