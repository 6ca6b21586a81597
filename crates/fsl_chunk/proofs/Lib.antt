pub mod FitsLemmas
pub mod FoundItems
pub mod HeapNumbers
pub mod HeapSearch
pub mod NumbersLemmas
pub mod StateLemmas
