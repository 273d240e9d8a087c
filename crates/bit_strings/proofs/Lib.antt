pub mod PackedLemmas
mod WordLemmas
mod NumberLemmas
