pub mod CheckLemmas
pub mod LoadingLemmas
pub mod RunLemmas
