pub mod Draining
pub mod Ending
pub mod Judging
