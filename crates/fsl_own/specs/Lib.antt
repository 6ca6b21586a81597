pub mod Knowledge
pub mod Reading
pub mod Owning
pub mod Atoms
pub mod Kept
