pub mod SentLemmas
pub mod PieceLemmas
