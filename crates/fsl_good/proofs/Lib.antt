pub mod Pieces
pub mod Shifting
pub mod Acting
pub mod Fencing
pub mod Gaining
pub mod Sending
pub mod Passing
pub mod Replacing
