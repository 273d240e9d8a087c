pub mod AnyLemmas
pub mod RowLemmas
pub mod BucketLemmas
pub mod FoundLemmas
pub mod GrownLemmas
pub mod CertainLemmas
mod Worked
