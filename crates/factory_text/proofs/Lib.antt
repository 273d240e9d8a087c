mod NumeralLemmas
mod FrontLemmas
mod HashLemmas
pub mod SpecLemmas
