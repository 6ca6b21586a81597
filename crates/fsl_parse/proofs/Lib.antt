pub mod Depth
pub mod OnePlace
pub mod Place
pub mod Refusal
pub mod Stops
