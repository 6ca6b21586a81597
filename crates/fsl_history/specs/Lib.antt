pub mod Views
pub mod History
pub mod Lawful
pub mod Shown
pub mod Bounds
pub mod Real
pub mod Growth
