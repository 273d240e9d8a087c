pub mod MergeLemmas
pub mod MoveLemmas
pub mod PlaceLemmas
pub mod JoinLemmas
pub mod StepLemmas
pub mod AlikeLemmas
pub mod LawLemmas
mod Worked
