pub mod Distinct
pub mod Blocks
pub mod Seeing
pub mod Sights
