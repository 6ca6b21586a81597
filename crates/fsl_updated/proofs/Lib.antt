pub mod Finding
pub mod Forgetting
pub mod Replacing
pub mod Stepping
pub mod Updates
