pub mod ReadLemmas
pub mod ShelfLemmas
