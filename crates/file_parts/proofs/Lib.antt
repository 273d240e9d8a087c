pub mod FeedLemmas
pub mod FillLemmas
pub mod HeadLemmas
pub mod Reading
pub mod RecordLemmas
pub mod RunLemmas
pub mod Repeats
pub mod StoreLemmas
