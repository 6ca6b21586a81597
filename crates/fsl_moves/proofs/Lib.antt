pub mod ListsLemmas
pub mod MovesLemmas
pub mod ActsLemmas
pub mod TurnLemmas
pub mod ReachLemmas
