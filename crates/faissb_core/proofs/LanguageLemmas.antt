pub mod WordLemmas
pub mod NumberLemmas
pub mod IdLemmas
pub mod GrammarLemmas
pub mod ReadLemmas
pub mod NameLemmas
