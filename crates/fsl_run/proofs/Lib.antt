pub mod Causes
pub mod RunningLemmas
pub mod Quiet
pub mod Standing
