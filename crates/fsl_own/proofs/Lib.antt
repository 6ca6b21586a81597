pub mod Knowing
pub mod Telling
pub mod Reading
pub mod Totals
pub mod Owning
pub mod Atoms
