pub mod Grounds
pub mod Laws
pub mod Steps
pub mod Updates
