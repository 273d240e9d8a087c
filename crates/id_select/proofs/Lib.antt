pub mod FlagLemmas
pub mod HalvingLemmas
pub mod LegalLemmas
pub mod RemovedLemmas
