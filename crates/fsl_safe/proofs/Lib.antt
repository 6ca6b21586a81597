pub mod Acts
pub mod Advancing
pub mod Standing
pub mod Stepping
pub mod Handing
pub mod Forking
pub mod Joining
pub mod Safety
