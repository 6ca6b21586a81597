pub mod Adding
pub mod Closed
pub mod Least
pub mod Matrices
pub mod Pushed
pub mod Range
pub mod Undone
