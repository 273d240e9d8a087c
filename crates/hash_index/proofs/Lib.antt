pub mod TableLemmas
pub mod AddLemmas
pub mod HashLemmas
pub mod LegalHash
pub mod MarkLemmas
pub mod NearLemmas
pub mod BucketLemmas
