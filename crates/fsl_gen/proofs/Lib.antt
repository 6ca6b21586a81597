pub mod GeneratedLemmas
