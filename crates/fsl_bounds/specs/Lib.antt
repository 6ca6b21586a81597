pub mod Marks
pub mod Matrix
