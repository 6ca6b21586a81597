pub mod Config
pub mod Done
pub mod Label
pub mod Moves
pub mod Reach
pub mod Turn
