pub mod Failures
pub mod Workers
pub mod Ends
