pub mod Holding
pub mod Keeping
pub mod Parts
pub mod Passed
pub mod Passes
